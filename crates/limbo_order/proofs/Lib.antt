pub mod Places
pub mod Orders
pub mod Steps
pub mod Stepping
