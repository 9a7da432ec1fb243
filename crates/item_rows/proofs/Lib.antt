pub mod Said
pub mod Out
pub mod Judged
pub mod Determined
