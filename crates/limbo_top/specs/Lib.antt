pub mod Tops
pub mod TopLevel
pub mod View
pub mod Parts
