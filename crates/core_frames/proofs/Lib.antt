pub mod Fit
pub mod Listed
pub mod Even
pub mod Places
pub mod Nodes
pub mod Examples
