pub mod Shares
pub mod Views
pub mod Teams
pub mod Rule
