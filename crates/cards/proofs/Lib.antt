pub mod Repeats
pub mod Decks
pub mod Orders
