pub mod Told
pub mod Nodes
pub mod Rules
