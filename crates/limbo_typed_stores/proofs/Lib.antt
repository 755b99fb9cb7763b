pub mod Settled
pub mod Built
pub mod Named
pub mod Typed
pub mod Told
