pub mod Assigning
pub mod Choosing
pub mod Laws
pub use Rattle.limbo_operands.specs as limbo_operands
