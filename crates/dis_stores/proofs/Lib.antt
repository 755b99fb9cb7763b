pub mod Named
pub mod Written
pub mod Takes
pub mod Blocks
pub mod Cuts
pub mod Settling
