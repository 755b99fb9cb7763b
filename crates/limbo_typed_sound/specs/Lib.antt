pub mod Describing
pub mod Proper
pub mod Laws
pub use Rattle.limbo_typing.specs.limbo_applying as limbo_applying
pub use Rattle.limbo_typing.specs.limbo_combining as limbo_combining
pub use Rattle.limbo_typing.specs as limbo_typing
pub use Rattle.limbo_typing.specs.limbo_value_forms as limbo_value_forms
pub use Rattle.limbo_typing.specs.limbo_written as limbo_written
