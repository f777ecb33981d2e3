pub mod Runs
pub mod RoundRooms
pub mod Processing
pub mod InvokeRounds
pub mod Invoke
