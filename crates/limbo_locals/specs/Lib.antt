pub mod Named
pub mod Anywhere
pub use Rattle.limbo_local.specs as limbo_local
pub use Rattle.limbo_exprs.specs.limbo_typing as limbo_typing
