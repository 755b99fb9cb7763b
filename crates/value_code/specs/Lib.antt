pub mod Data
pub mod Operands
pub mod Works
pub mod Code
pub mod Objects
pub mod Laws
