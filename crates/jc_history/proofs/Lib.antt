pub mod RoundTrip
pub mod Stored
pub mod CallerLemmas
mod Appended
mod Places
