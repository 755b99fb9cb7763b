pub mod Sizes
pub mod Put
