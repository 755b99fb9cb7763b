pub mod Others
pub mod Told
pub mod OneTable
pub mod Giving
pub use Rattle.limbo_operators.proofs as limbo_operators_lemmas
