pub mod Rows
pub mod Differing
