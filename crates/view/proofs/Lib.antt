pub mod Found
pub mod Shown
pub mod Determined
