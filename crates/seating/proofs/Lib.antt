pub mod Tables
pub mod Seats
pub mod Own
