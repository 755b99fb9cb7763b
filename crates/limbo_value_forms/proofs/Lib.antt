pub mod Once
pub mod Given
pub use Rattle.limbo_channels.proofs as limbo_channels_lemmas
pub use Rattle.limbo_literals.proofs as limbo_literals_lemmas
pub use Rattle.limbo_places.proofs as limbo_places_lemmas
