pub mod Updating
pub mod Laws
