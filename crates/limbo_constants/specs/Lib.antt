pub mod Sorts
pub mod Constants
pub mod Asked
pub mod View
pub mod Laws
