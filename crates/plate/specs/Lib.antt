pub mod Name
pub mod Plate
pub mod Occur
