pub mod ReservationTable
