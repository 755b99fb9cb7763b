pub mod Texts
pub mod Loop
pub mod Long
pub mod Whole
