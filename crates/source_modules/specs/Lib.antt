pub mod Checked
pub mod Failing
pub mod Given
pub mod Laws
pub use Rattle.limbo_modules.specs as limbo_modules
