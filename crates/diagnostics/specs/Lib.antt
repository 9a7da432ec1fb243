pub mod Diagnostics
pub mod Written
pub mod Examples
