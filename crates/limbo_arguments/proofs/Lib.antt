pub mod Each
pub mod Faults
pub use Rattle.limbo_standing.proofs as limbo_standing_lemmas
