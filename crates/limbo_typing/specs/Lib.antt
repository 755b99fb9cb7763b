pub mod Typing
pub mod Failing
pub mod Laws
pub use Rattle.limbo_applying.specs as limbo_applying
pub use Rattle.limbo_applying.specs.limbo_arguments as limbo_arguments
pub use Rattle.limbo_written.specs.limbo_body_types as limbo_body_types
pub use Rattle.limbo_value_forms.specs.limbo_combining as limbo_combining
pub use Rattle.limbo_defining.specs as limbo_defining
pub use Rattle.limbo_folding.specs as limbo_folding
pub use Rattle.limbo_written.specs.limbo_permits as limbo_permits
pub use Rattle.limbo_applying.specs.limbo_things as limbo_things
pub use Rattle.limbo_value_forms.specs.limbo_updating as limbo_updating
pub use Rattle.limbo_value_forms.specs as limbo_value_forms
pub use Rattle.limbo_written.specs as limbo_written
