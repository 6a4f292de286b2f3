pub mod Decimal
pub mod Lists
pub mod Writes
