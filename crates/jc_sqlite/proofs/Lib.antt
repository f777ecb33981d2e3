mod Answering
mod Batches
pub mod CallerLemmas
mod Statements
mod Turns
