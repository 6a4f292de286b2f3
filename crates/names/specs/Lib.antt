pub mod Answer
pub mod Five
pub mod Board
pub mod Pocket
pub mod Lo
pub mod Top
