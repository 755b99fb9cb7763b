pub mod Decls
pub mod View
