pub mod Stands
pub mod Sides
pub mod Kept
pub mod Rooted
pub mod Rows
