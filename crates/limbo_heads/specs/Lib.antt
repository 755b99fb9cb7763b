pub mod Around
pub mod Starts
pub mod Entering
pub mod Catching
pub mod Labels
pub mod Singles
