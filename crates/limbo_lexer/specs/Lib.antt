pub mod Words
pub mod Numbers
pub mod Constants
pub mod Tokens
pub mod Pieces
pub mod Causes
pub mod Refusals
pub use Rattle.inf_text.specs as inf_text
