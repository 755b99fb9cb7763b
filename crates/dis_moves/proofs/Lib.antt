pub mod Typed
pub mod Chains
pub mod Windows
pub mod Moved
pub mod Copied
