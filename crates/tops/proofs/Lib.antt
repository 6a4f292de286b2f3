pub mod Names
pub mod Seats
