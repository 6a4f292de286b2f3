pub mod Suits
pub mod Choices
pub mod Best
pub mod Orders
