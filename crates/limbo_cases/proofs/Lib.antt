pub mod Places
pub mod Orders
pub mod Keeps
pub mod Finding
pub mod Unique
