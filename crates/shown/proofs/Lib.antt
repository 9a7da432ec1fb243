pub mod Values
pub mod Reading
pub mod Inside
pub mod Determined
