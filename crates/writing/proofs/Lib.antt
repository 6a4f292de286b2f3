pub mod Files
pub mod Stores
pub mod Seats
pub mod Whole
pub mod Answers
