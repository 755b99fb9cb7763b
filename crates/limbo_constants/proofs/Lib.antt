pub mod Others
pub mod Depends
pub mod Sorted
pub mod Joined
pub mod Ranges
pub mod Examples
