pub mod Forms
pub mod Laws
pub use Rattle.limbo_channels.specs as limbo_channels
pub use Rattle.limbo_combining.specs as limbo_combining
pub use Rattle.limbo_literals.specs as limbo_literals
pub use Rattle.limbo_places.specs as limbo_places
pub use Rattle.limbo_updating.specs as limbo_updating
