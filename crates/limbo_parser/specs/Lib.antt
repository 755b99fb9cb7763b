pub mod Sources
pub mod Parsing
pub mod Refusals
