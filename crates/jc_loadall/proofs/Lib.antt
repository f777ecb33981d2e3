pub mod Common
pub mod PieceKeys
pub mod Noting
pub mod JoinedNotes
pub mod Gathered
pub mod TeamWork
pub mod ToolWork
pub mod LoadedPieces
