pub mod Sizes
pub mod Rows
pub mod Replies
pub mod Determined
