pub mod Elements
pub mod Put
pub mod Marked
