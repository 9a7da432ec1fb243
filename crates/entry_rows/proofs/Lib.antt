pub mod Putting
pub mod Saying
pub mod OneForm
pub mod Determined
