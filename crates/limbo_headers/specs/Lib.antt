pub mod Headers
pub mod Refusals
pub use Rattle.limbo_type_names.specs as limbo_type_names
