pub mod Rows
pub mod Ones
pub mod Turns
pub mod Answers
