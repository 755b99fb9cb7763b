pub mod Others
pub mod Rounds
pub mod First
pub mod Wholes
mod Examples
