pub mod Parts
pub mod Calling
pub use Rattle.limbo_defining.specs as limbo_defining
pub use Rattle.limbo_places.specs.limbo_prefixes as limbo_prefixes
pub use Rattle.limbo_things.specs as limbo_things
pub use Rattle.limbo_typing.specs as limbo_typing
pub use Rattle.limbo_typing.specs.limbo_value_forms as limbo_value_forms
