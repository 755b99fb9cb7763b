mod Nodes
pub mod Refused
pub use Rattle.limbo_standing.proofs as limbo_standing_lemmas
