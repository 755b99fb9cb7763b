pub mod Types
pub mod Names
pub mod Fields
pub mod Composing
pub mod Unique
pub mod Failing
