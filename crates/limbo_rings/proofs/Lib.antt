pub mod Graphs
pub mod Finite
pub mod Known
pub mod Changing
pub mod Writing
pub mod Running
pub mod Permitting
pub mod Stepping
mod Examples
pub mod Runs
