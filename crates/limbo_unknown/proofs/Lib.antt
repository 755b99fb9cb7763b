pub mod Gaps
pub mod Plain
pub mod Tabled
