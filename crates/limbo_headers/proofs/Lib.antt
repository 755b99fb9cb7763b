pub mod Listing
pub mod Telling
pub use Rattle.limbo_type_names.proofs as limbo_type_names_lemmas
