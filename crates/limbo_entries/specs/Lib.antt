pub mod Entries
pub mod View
pub mod Growing
pub mod Laws
