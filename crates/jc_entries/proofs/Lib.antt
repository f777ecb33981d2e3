pub mod CallerLemmas
pub mod IsValidByUse
pub mod Lru
pub mod Filling
