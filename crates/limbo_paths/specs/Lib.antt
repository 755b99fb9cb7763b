pub mod Paths
pub mod Walking
pub mod Runs
pub mod Laws
