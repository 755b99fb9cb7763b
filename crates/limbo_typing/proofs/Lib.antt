mod Lower
pub mod Forms
pub mod Called
pub mod Once
pub mod Failing
pub use Rattle.limbo_written.proofs.limbo_permits_lemmas as limbo_permits_lemmas
pub use Rattle.limbo_written.proofs as limbo_written_lemmas
