pub mod Store
pub mod Shared
pub mod Counts
