pub mod Words
pub mod Owned
pub mod Later
pub mod Left
pub mod Process
pub mod Still
mod Examples
