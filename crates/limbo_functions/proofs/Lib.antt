mod Parameters
mod Statements
mod Whole
mod Rows
pub use Rattle.limbo_bodies.proofs as limbo_bodies_lemmas
