pub mod Turning
pub mod Replying
pub mod Serials
