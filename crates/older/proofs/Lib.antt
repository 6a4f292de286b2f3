pub mod Records
pub mod Amounts
pub mod Files
