pub mod Start
pub mod Heads
pub mod Jumps
