pub mod Forms
pub mod Knowing
pub mod Rows
pub mod Counting
pub mod Composing
pub mod Needing
pub mod Filling
pub mod Unique
pub mod Failing
pub mod Circles
pub use Rattle.limbo_naming.proofs as limbo_naming_lemmas
