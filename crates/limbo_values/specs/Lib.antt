pub mod Numbers
pub mod Operators
pub mod Conversions
pub mod Texts
pub mod Laws
