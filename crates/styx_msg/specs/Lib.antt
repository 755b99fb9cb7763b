pub mod Styx
pub mod Answers
