pub mod Defined
pub mod Labels
pub mod Wanted
pub mod View
pub mod Refusals
pub mod Sets
pub mod Places
