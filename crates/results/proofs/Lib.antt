pub mod Places
pub mod Judging
pub mod Filling
