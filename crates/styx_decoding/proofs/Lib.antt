pub mod Loop
pub mod Texts
pub mod Fields
pub mod Rows
pub mod Frames
pub mod OneSpelling
