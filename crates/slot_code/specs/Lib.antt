pub mod Layout
pub mod Code
pub mod View
pub mod Machine
pub mod Step
pub mod Rules
