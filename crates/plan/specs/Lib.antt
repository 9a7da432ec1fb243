pub mod Plan
pub mod Written
