pub mod Texts
pub mod Files
pub mod Reading
pub mod Levels
pub use Rattle.limbo_parser.specs as limbo_parser
