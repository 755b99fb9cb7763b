pub mod Lefts
pub mod Names
pub mod Each
pub mod Told
pub mod Unique
