pub mod Zeros
pub mod Slots
pub mod Forms
pub mod Formed
pub mod BadNames
pub mod Determined
