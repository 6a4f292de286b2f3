pub mod Ranks
pub mod Sums
