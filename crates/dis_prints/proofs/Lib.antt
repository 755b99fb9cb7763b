pub mod Left
pub mod Chains
