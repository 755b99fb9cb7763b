pub mod Inside
pub mod Definitions
pub mod Empty
pub mod Modules
