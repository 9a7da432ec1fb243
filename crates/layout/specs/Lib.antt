pub mod Rows
pub mod Record
pub mod Held
