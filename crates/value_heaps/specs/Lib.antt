pub mod Types
pub mod Blocks
pub mod Laws
pub mod Contents
pub mod Made
