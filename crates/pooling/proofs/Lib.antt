pub mod Dealt
pub mod Pooled
pub mod Shared
pub mod Absent
pub mod Listed
pub mod Folded
pub mod Unpooled
pub mod Sound
