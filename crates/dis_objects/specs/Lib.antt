pub mod Frames
pub mod Code
pub mod Objects
pub mod Proper
pub mod Words
pub mod Sites
pub mod Spelled
pub mod Growing
