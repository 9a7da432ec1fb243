pub mod Setup
