pub mod Records
pub mod Amounts
