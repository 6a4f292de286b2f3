pub mod Lit
