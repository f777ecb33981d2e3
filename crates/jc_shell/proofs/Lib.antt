pub mod Common
pub mod Lines
pub mod Feeds
pub mod Turns
pub mod Streams
