pub mod Fields
pub mod Rows
pub mod Data
pub mod Whole
pub mod Shortest
