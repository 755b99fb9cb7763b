pub mod Puts
pub mod Putting
pub mod Opening
pub mod Laws
