pub mod Calls
pub mod Prints
pub use Rattle.limbo_arguments.proofs as limbo_arguments_lemmas
