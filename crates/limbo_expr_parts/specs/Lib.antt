pub mod Front
pub mod Strength
pub mod Types
pub mod Operators
pub mod Parts
