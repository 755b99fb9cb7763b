pub mod Commands
pub mod Forms
