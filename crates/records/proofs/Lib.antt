pub mod Betweens
