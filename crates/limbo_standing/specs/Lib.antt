pub mod Joining
pub mod ItemTypes
pub mod Standing
pub mod Settling
pub mod Laws
