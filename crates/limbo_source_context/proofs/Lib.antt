pub mod Knowing
pub mod Refusing
pub mod Beginnings
pub mod Suiting
pub mod Ones
pub mod Contexts
pub mod Failing
pub use Rattle.limbo_outline.proofs as limbo_outline_lemmas
