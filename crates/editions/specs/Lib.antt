pub mod Ids
pub mod WarningIds
pub mod Editions
pub mod Lawful
pub mod Steps
