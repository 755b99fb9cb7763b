pub mod Operands
pub mod Spots
pub mod Writing
pub mod Changing
