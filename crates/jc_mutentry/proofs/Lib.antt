pub mod CallerLemmas
pub mod Lent
mod LookingBack
mod Playing
mod Stepping
