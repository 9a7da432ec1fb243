pub mod Items
pub mod Noted
pub mod Reading
pub mod Laws
pub mod Determined
