pub mod Built
pub mod Closing
pub mod Dumping
pub mod Faults
pub mod Outcome
pub mod Reading
pub mod Running
pub mod Compiling
