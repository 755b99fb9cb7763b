pub mod Lists
pub mod Serials
pub mod Heaps
pub mod Regions
