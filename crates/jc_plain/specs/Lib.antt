pub mod Attempts
pub mod Loads
pub mod Writes
pub mod Updates
