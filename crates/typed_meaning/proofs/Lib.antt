pub mod Replays
pub mod Examples
pub mod Kept
pub mod Frames
pub mod Lows
pub mod Breaks
pub mod Endings
pub mod Sendable
