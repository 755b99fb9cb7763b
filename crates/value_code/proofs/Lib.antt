pub mod Sizes
pub mod Lists
pub mod Codes
pub mod Types
pub mod Constants
pub mod Having
pub mod Examples
