pub mod Going
pub mod Fitting
