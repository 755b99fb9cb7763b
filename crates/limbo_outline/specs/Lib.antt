pub mod Outline
pub mod Laws
pub use Rattle.limbo_source_adts.specs as limbo_source_adts
