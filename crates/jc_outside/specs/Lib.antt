pub mod Done
pub mod Hands
pub use Rattle.jc_batch.specs.Answers
pub mod Calling
pub mod CallingAll
