pub mod Definitions
pub mod Declaring
pub mod Found
pub mod Known
pub mod Modules
pub mod Failing
pub mod Faults
pub mod First
pub mod Laws
pub use Rattle.limbo_source_context.specs as limbo_source_context
pub use Rattle.limbo_stmt_values.specs.limbo_stating as limbo_stating
