pub mod Refusing
pub mod Written
pub mod Putting
pub mod Numbering
pub mod Bigs
pub mod Spelled
pub mod Outside
pub mod Beginning
