pub mod Places
pub mod Rows
pub mod Naming
pub mod Carrying
pub mod Excepting
pub mod Single
pub mod Labelled
