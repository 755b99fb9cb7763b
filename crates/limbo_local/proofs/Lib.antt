pub mod Once
pub mod Failing
pub use Rattle.limbo_typing.proofs.limbo_permits_lemmas as limbo_permits_lemmas
pub use Rattle.limbo_typing.proofs as limbo_typing_lemmas
