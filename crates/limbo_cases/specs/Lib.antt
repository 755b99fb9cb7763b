pub mod Labels
pub mod Texts
pub mod Keeping
pub mod Laws
