pub mod Joining
pub mod Resolving
pub mod Dissolving
pub mod Taking
pub mod IsJoinerList
pub mod Inside
