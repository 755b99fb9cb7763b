pub mod Literals
pub mod Refusing
pub mod Laws
