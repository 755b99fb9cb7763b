pub mod View
pub mod Stated
pub mod Turns
