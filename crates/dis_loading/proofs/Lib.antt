pub mod Entering
pub mod Plains
