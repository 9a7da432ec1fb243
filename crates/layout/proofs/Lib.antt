pub mod Sizes
pub mod SlotBack
pub mod Announced
pub mod RecordBack
