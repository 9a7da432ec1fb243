pub mod Reading
pub mod Laws
pub mod Back
pub mod Determined
