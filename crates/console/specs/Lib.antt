pub mod Console
pub mod Numbers
