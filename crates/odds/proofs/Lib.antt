pub mod Places
pub mod Lines
pub mod Above
