mod Counted
pub mod Freed
pub mod Growing
mod Imported
pub mod Known
pub mod Listed
mod Parts
pub mod Pushed
pub mod Rules
