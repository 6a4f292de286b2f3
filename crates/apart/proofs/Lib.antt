pub mod Joins
pub mod Single
pub mod Laws
