pub mod Link
pub mod Promised
pub mod ReadsAs
pub mod Again
pub mod SetsUpAs
pub mod Warnings
