pub mod Reasons
pub mod Around
pub mod Cases
pub mod Alts
pub mod Picks
pub mod Handlers
pub mod Raising
pub mod Stating
pub mod FailsToState
pub mod Functions
pub mod Laws
pub use Rattle.limbo_local.specs as limbo_local
pub use Rattle.limbo_things.specs as limbo_things
