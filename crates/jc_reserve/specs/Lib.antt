pub mod Table
pub mod Reserving
pub mod IsReservationTable
pub mod Inside
