pub mod Insides
pub mod Collecting
pub mod Counts
pub mod Outer
pub mod Named
pub mod Modules
