pub mod Packed
pub mod Determined
