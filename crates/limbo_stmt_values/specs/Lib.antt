pub mod Leading
pub mod Answering
pub mod Choosing
pub mod Whys
pub mod Labels
pub use Rattle.limbo_stating.specs.limbo_local as limbo_local
pub use Rattle.limbo_stating.specs as limbo_stating
pub use Rattle.limbo_exprs.specs.limbo_typing as limbo_typing
