pub mod Named
pub mod Told
pub mod Once
pub use Rattle.limbo_permits.proofs as limbo_permits_lemmas
