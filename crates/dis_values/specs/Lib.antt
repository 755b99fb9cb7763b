pub mod Making
pub mod Texts
pub mod Arrays
pub mod Bytes
pub mod Copies
pub mod References
pub mod Lists
