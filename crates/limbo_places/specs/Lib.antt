pub mod Places
pub mod Elements
pub mod Slices
pub mod Targets
pub mod Steps
pub mod Choosing
pub mod Laws
pub use Rattle.limbo_prefixes.specs as limbo_prefixes
