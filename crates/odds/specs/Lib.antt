pub mod Tables
pub mod Pays
