pub mod Declared
pub mod Texts
pub mod Laws
