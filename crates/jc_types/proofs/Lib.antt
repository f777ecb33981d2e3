pub mod CallerLemmas
mod WordOrder
