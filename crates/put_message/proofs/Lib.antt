pub mod Values
pub mod Sizes
pub mod Words
pub mod Messages
pub mod Determined
