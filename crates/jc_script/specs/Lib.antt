pub mod LineEvents
pub mod Faults
pub mod Transcript
pub mod ReachedWorlds
pub mod Running
pub mod Determinism
