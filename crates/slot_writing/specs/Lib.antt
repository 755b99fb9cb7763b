pub mod Terms
pub mod Weights
pub mod Written
pub mod Operands
pub mod Conditions
pub mod Loops
