pub mod Form
pub mod BadNames
