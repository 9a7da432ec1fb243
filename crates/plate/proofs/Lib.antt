pub mod Sent
pub mod Plate
pub mod Occur
