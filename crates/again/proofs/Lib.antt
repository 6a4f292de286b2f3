pub mod Spelled
pub mod Grows
pub mod Streets
pub mod Laws
