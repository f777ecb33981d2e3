pub mod Steps
pub mod Shares
pub mod CallerLemmas
