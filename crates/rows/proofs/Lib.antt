pub mod TableLaws
pub mod Determined
