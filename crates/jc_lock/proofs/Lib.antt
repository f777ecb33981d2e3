pub mod Prefixes
pub mod CallerLemmas
pub mod Steps
