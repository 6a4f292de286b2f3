pub mod File
pub mod Joined
