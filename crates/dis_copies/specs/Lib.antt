pub mod Spans
pub mod Changes
