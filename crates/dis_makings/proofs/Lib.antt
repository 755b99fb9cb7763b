pub mod Gone
pub mod Parts
pub mod Numbered
pub mod Sliced
