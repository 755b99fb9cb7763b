pub mod Operands
pub use Rattle.limbo_standing.specs as limbo_standing
