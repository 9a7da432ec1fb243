pub mod Putting
pub mod Sizes
pub mod Determined
