pub mod Loaded
pub mod Jumps
