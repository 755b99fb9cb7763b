pub mod Once
pub mod Steps
pub mod Types
pub mod Declaring
