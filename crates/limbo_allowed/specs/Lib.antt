pub mod Allowed
pub mod Choosing
pub use Rattle.limbo_adts.specs as limbo_adts
