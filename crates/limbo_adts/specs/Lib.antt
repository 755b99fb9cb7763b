pub mod Reaches
pub mod Closed
pub mod Reading
pub mod Table
pub mod Seen
pub mod Searching
pub mod Laws
pub use Rattle.limbo_layout.specs as limbo_layout
