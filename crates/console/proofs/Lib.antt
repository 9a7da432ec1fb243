pub mod Counting
pub mod Gathered
pub mod Examples
pub mod Determined
