pub mod Batch
pub mod Splitting
pub mod BatchInside
pub mod Changes
pub mod Answers
pub mod LoadBatch
