pub mod Saving
pub mod ShellWords
pub mod Sessions
pub mod Holding
pub mod Running
