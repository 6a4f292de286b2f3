pub mod Base
pub mod Sides
