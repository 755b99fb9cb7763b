pub mod Spelling
pub mod Operands
pub mod Places
pub mod Instructions
pub mod Types
pub mod Items
pub mod Filling
pub mod Whole
