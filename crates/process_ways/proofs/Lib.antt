pub mod On
pub mod Follows
pub mod Twice
