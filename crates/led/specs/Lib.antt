pub mod Led
pub mod Held
pub mod Records
