pub mod Value
pub mod Reading
pub mod Written
pub mod Ranges
