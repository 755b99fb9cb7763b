pub mod Telling
pub mod Going
pub mod Cleaning
pub mod Drops
pub mod Chains
pub mod Standing
pub mod Moving
pub mod Nodes
pub mod Comparing
pub mod Placing
pub mod Expressions
pub mod Filling
pub mod Trees
pub mod Loops
pub mod Functions
pub mod Modules
mod Examples
