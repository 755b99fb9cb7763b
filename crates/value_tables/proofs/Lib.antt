pub mod Texts
pub mod Maps
pub mod Marks
pub mod Rows
pub mod Bytes
pub mod Others
pub mod Grown
pub mod Distinct
