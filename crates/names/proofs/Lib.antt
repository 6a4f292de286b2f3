pub mod Answers
pub mod Fives
pub mod Los
pub mod Orders
pub mod Places
pub mod Few
