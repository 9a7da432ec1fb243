pub mod Forms
pub mod Search
pub mod Listed
pub mod Names
pub mod Tables
pub mod Determined
