pub mod Roots
pub mod Determined
pub mod Back
pub mod Again
pub mod Different
pub mod Good
