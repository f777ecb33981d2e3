pub mod Moves
pub mod Schedule
pub mod Final
pub mod Keys
pub mod Explored
pub mod Search
pub mod Watching
pub mod Telling
