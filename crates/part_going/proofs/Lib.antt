pub mod Results
pub mod Alike
pub mod Sound
pub mod Operands
pub mod Going
