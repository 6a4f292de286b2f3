pub mod Digits
pub mod Planes
pub mod Apart
pub mod Lines
pub mod Pockets
pub mod Cards
