pub mod Typed
pub mod View
pub mod Fitting
pub mod Sound
pub use Rattle.limbo_adts.specs.limbo_layout as limbo_layout
