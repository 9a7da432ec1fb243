pub mod Judge
pub mod Extensions
