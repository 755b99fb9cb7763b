pub mod Failing
pub mod Parts
pub mod Laws
pub use Rattle.limbo_standing.specs as limbo_standing
