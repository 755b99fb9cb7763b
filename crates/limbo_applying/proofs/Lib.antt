pub mod Once
pub mod Refused
pub use Rattle.limbo_calls.proofs as limbo_calls_lemmas
pub use Rattle.limbo_things.proofs as limbo_things_lemmas
