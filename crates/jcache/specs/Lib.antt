pub mod Exit
pub mod Reports
pub mod Teams
