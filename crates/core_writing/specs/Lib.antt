pub mod Operands
pub mod Completed
pub mod Types
pub mod Gathering
pub mod Initialisers
