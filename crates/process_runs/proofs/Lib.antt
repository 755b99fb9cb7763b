pub mod Paces
pub mod Beside
pub mod Calmly
pub mod Composed
pub mod Untold
pub mod Losing
