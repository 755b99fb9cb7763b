pub mod Arguments
pub mod Formatting
