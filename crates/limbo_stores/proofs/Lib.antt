pub mod Forms
pub mod Nodes
pub mod Told
pub mod Stored
pub mod Reaching
pub mod Rings
pub mod Places
mod Examples
