pub mod Pieces
pub mod Loading
pub mod Notes
pub mod Working
