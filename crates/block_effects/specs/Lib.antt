pub mod Stored
pub mod Contents
pub mod Copying
pub mod Strings
pub mod Arrays
pub mod Lists
