pub mod Heaps
pub mod Found
pub mod Chained
pub mod Steps
