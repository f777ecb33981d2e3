pub mod Notes
pub mod Words
pub mod Reading
pub mod AtKey
pub mod Index
pub mod Answers
pub mod Details
pub mod Running
