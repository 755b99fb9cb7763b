pub mod Paths
pub mod Stores
pub mod Places
