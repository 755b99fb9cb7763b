mod Examples
pub mod Following
pub mod Blocks
pub mod Reading
pub mod Storing
pub mod Formatting
pub mod Moving
pub mod Controlling
pub mod Steps
pub mod Answers
pub mod Traces
pub mod Together
pub mod Runs
pub mod Openings
pub mod Returning
pub mod Faultless
