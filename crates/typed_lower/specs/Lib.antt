pub mod Kinds
pub mod Terms
pub mod Statements
pub mod Stands
pub mod Keeps
pub mod Sizes
pub use Rattle.slot_code.specs as slot_code
