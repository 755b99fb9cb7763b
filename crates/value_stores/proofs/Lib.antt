mod Rooms
mod Lying
mod Standing
pub mod Parts
pub mod Stores
pub mod Places
