pub mod Opening
pub mod Counts
pub mod References
pub mod Reach
pub mod Going
pub mod Ends
pub mod Alike
pub mod Told
