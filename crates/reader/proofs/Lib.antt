pub mod Slots
pub mod Walk
pub mod Begin
pub mod Judged
pub mod Fitting
pub mod Record
pub mod Determined
