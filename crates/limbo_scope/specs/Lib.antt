pub mod Scopes
pub mod Laws
pub mod Codes
pub mod Maps
pub mod View
