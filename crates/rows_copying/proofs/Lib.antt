pub mod Lists
pub mod Blocks
pub mod Words
pub mod Changing
pub mod Rows
