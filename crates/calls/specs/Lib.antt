pub mod Judged
pub mod Decided
pub mod Call
