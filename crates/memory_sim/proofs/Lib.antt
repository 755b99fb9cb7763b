mod Faultless
pub mod Keeping
