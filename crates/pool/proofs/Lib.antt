pub mod Laws
pub mod Rounded
pub mod Standing
pub mod Shares
pub mod Dollars
pub mod Pools
pub mod Fair
