pub mod Branching
pub mod Rows
