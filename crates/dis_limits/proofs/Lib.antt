pub mod Lengths
pub mod Fitting
pub mod Walking
pub mod Running
pub mod Beginning
pub mod Blocks
pub mod References
