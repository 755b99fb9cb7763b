pub mod Storing
pub mod Exchanging
