pub mod Written
pub mod Lacking
pub mod Refusing
