pub mod Streets
pub mod Choice
pub mod Slots
