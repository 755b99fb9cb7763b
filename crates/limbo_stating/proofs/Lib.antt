pub mod Lower
pub mod Parts
pub mod Once
pub mod PartsFail
pub mod Failing
