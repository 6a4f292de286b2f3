pub mod Floor
pub mod Whole
