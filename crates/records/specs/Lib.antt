pub mod Bytes
pub mod Seats
