pub mod Putting
pub mod References
pub mod Variables
pub mod Reading
pub mod Storing
pub mod Sources
pub mod Writing
pub mod Globals
