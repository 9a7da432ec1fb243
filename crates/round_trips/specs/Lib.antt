pub mod Ties
pub mod LentDiffer
pub mod Examples
