pub mod Values
pub mod Verbs
pub mod World
pub mod Prints
pub mod Ending
pub mod Trace
pub mod Limits
