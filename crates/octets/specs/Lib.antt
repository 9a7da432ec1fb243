pub mod Read
pub mod Field
pub mod Many
pub mod Write
pub mod Stands
pub mod Span
