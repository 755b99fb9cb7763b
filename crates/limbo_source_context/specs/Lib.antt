pub mod SourceContext
pub mod Beginning
pub mod Numbers
pub mod Parts
pub mod Laws
pub use Rattle.limbo_outline.specs as limbo_outline
