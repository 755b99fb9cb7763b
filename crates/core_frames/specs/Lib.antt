pub mod Sizes
pub mod Fits
pub mod Places
pub mod Nodes
pub mod Even
