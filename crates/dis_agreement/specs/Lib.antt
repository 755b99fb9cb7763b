pub mod Agreement
pub mod Laws
pub mod Runs
pub mod Faultless
