pub mod Outside
pub mod Targets
pub mod Bulk
pub mod BulkRounds
pub mod Carrying
