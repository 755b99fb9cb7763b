pub mod Rings
pub mod Storing
pub mod Permitting
pub mod Stepping
pub mod Running
