pub mod Slots
pub mod Untouched
pub mod Determined
