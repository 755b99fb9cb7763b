pub mod Held
pub mod Needs
pub mod Written
pub mod Going
pub mod Trees
pub mod Runs
pub mod Functions
