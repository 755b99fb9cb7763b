pub mod View
pub mod Outside
pub mod Headings
pub mod Bodies
pub mod First
pub use Rattle.limbo_bodies.specs as limbo_bodies
pub use Rattle.limbo_stated_sound.specs as limbo_stated_sound
pub use Rattle.limbo_stmts.specs as limbo_stmts
