pub mod ByUse
pub mod Inserting
pub mod EntriesInside
pub mod MostRecent
