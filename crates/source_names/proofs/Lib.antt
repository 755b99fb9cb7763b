pub mod Texts
pub mod Told
pub mod Read
pub mod Doubled
pub mod Refused
