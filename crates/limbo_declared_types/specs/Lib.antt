pub mod Permitted
pub mod Asked
pub mod Laws
