pub mod CallerLemmas
pub mod Ending
pub mod JoinerList
