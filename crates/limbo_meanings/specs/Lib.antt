pub mod Kinds
pub mod Meanings
pub mod Names
pub mod Listed
pub mod Laws
