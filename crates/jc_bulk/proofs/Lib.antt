pub mod Common
pub mod Filling
pub mod Returning
pub mod Tickets
pub mod RoundsOn
pub mod CarriedOut
pub mod Looking
pub mod Quiet
