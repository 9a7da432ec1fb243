pub mod Lent
pub mod Tests
