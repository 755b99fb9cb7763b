pub mod Elements
pub mod Nodes
pub mod Runs
pub mod Settled
