pub mod Opcodes
pub mod Operands
pub mod Parts
pub mod Loading
pub mod Objects
pub mod Reading
pub mod Writing
pub mod Answers
