pub mod Others
pub mod Written
pub mod Turned
pub mod Loaded
pub mod Looping
pub mod Standing
pub mod Functions
