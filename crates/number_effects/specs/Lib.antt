pub mod Giving
pub mod Reading
pub mod Numbers
pub mod Records
pub mod Control
pub mod Frames
pub mod Stepping
