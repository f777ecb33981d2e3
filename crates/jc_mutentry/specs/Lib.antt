pub mod Done
pub mod Entries
pub mod GetOutcomes
pub mod Inside
pub mod Running
pub mod Playing
