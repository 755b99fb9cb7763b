pub mod Tags
pub mod Sizes
pub mod Pieces
pub mod Digits
