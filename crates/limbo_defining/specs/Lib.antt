pub mod Defining
pub mod Parts
pub mod Laws
pub use Rattle.limbo_context.specs as limbo_context
