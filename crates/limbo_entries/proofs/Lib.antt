pub mod Lists
pub mod Ordered
pub mod Tables
pub mod Repeated
pub mod Indexed
pub mod Seeking
