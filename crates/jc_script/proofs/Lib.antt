pub mod Common
pub mod TranscriptLines
pub mod Callable
pub mod Fitting
pub mod SingleCalls
pub mod ReachedWorlds
pub mod PrintedMemory
pub mod OneTranscript
