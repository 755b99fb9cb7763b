pub mod Taken
pub mod Served
pub mod Exchanged
pub mod Ended
