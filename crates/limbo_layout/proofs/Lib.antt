pub mod Rooms
pub mod Ways
pub mod Sound
pub mod Marks
pub mod Unlaid
pub mod Climbing
pub mod Placed
pub mod Examples
