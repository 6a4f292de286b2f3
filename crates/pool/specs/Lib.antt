pub mod Pool
pub mod Shares
pub mod Standings
