pub mod Again
pub mod Bigs
pub mod Alike
pub mod Onward
pub mod Live
pub mod Sources
pub mod Cells
pub mod Indexed
