pub mod Formats
pub mod Holes
