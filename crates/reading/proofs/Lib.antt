pub mod Records
pub mod Readings
pub mod Parts
pub mod Prefix
