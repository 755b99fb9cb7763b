pub mod Calls
pub mod Prints
pub mod OutputView
pub mod Refusing
pub mod Laws
pub use Rattle.limbo_arguments.specs as limbo_arguments
