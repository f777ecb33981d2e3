pub mod Numbers
pub mod Rows
pub mod Snapshot
pub mod Laws
pub mod Fingerprint
