pub mod Steps
pub mod Sizes
pub mod Plans
pub mod Messages
pub mod Determined
