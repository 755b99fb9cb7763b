pub mod Values
pub mod Bytes
pub mod Moves
