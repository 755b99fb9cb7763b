pub mod Written
pub mod Told
pub mod Laws
pub use Rattle.limbo_body_types.specs as limbo_body_types
pub use Rattle.limbo_permits.specs as limbo_permits
