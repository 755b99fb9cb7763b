pub mod Made
pub mod Bare
pub mod Ranges
pub mod Holding
