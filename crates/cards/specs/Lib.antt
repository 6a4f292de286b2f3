pub mod Card
pub mod Deck
