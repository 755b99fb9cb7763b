pub mod Rows
pub mod Choosing
pub mod RowView
pub mod Laws
