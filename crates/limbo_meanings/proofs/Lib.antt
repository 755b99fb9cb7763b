pub mod Finding
pub mod Places
pub mod Counting
pub mod Inside
pub mod Named
pub mod Lists
pub mod Numbered
