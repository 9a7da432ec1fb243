pub mod WalkLaws
pub mod ExtensionLaws
pub mod Listed
