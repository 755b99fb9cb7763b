pub mod Applying
pub mod Refusing
pub mod Laws
pub use Rattle.limbo_calls.specs.limbo_arguments as limbo_arguments
pub use Rattle.limbo_calls.specs as limbo_calls
pub use Rattle.limbo_things.specs as limbo_things
