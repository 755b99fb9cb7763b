pub mod Elements
pub mod Literals
pub use Rattle.limbo_arguments.proofs as limbo_arguments_lemmas
