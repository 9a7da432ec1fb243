pub mod Back
pub mod Reading
pub mod Full
pub mod Written
pub mod Determined
