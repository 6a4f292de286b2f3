pub mod Third
pub mod Whole
pub mod Taken
pub mod Settled
pub mod Demands
