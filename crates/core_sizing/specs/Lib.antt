pub mod Holding
pub mod Sizes
