pub mod Points
pub mod Local
pub mod Members
pub mod Declaring
pub mod Failing
pub mod Laws
pub use Rattle.limbo_typing.specs.limbo_applying as limbo_applying
pub use Rattle.limbo_typing.specs.limbo_folding as limbo_folding
pub use Rattle.limbo_typing.specs.limbo_permits as limbo_permits
pub use Rattle.limbo_typing.specs as limbo_typing
pub use Rattle.limbo_typing.specs.limbo_value_forms as limbo_value_forms
