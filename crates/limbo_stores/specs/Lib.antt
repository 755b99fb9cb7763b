pub mod Stores
pub mod Telling
pub mod Choosing
pub mod Heaps
pub mod Laws
