pub mod Parts
pub mod OneForm
pub mod Determined
