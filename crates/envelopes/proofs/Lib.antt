pub mod ScanLaws
pub mod Determined
