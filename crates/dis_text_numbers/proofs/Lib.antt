pub mod Digits
pub mod Lossy
pub mod Spelled
pub mod Putting
pub mod Packing
pub mod Branching
