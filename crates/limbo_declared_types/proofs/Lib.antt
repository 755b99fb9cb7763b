pub mod Lists
pub mod Single
pub mod Telling
