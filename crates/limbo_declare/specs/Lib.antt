pub mod Declares
pub mod Numbers
pub mod Laws
