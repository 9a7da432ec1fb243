pub mod View
pub mod Shows
