pub mod Highest
pub mod Refusals
pub mod Runs
