pub mod Order
pub mod Feed
