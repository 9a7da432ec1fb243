pub mod Rows
pub mod Rules
pub mod Holding
pub mod Examples
pub mod Determined
