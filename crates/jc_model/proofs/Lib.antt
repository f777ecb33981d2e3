pub mod CallerLemmas
pub mod Ordered
pub mod Reading
pub mod Readings
pub mod Accepting
pub mod Order
mod Rows
pub mod Openings
pub mod Whole
pub mod TableLaws
pub mod Counted
