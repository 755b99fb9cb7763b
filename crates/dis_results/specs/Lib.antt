pub mod Bytes
pub mod Going
