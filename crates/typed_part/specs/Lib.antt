pub mod Part
pub mod Seen
pub mod Laws
