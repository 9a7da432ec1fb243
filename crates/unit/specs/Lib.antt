pub mod Fit
pub mod Unit
pub mod Heard
