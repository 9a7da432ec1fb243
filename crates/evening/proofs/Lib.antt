pub mod Playing
pub mod Laws
pub mod Pieces
pub mod Determined
