pub mod Batch
pub mod Leaving
pub mod Opening
pub mod Statements
