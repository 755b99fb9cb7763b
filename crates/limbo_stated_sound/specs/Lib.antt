pub mod Growing
pub mod Proper
pub mod Standing
pub mod Named
pub mod Laws
pub use Rattle.limbo_stating.specs as limbo_stating
pub use Rattle.limbo_typed_sound.specs as limbo_typed_sound
