pub mod Words
pub mod Blocks
pub mod Frames
pub mod View
pub mod Regions
