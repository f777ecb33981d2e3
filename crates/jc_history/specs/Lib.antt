pub mod Past
pub mod Values
pub mod Encoding
pub mod Encodable
pub mod Appending
pub mod Decoding
pub mod Stored
pub mod HistoryInside
