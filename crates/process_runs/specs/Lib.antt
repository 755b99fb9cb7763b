pub mod Pace
pub mod Runs
pub mod Composed
