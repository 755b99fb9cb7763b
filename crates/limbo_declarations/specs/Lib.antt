pub mod Rows
pub mod View
pub mod Names
pub mod Scopes
