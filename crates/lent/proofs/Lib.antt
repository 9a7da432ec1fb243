pub mod Zeros
pub mod Rows
pub mod Reading
pub mod ByRows
pub mod Told
pub mod OneForm
pub mod Examples
pub mod Determined
