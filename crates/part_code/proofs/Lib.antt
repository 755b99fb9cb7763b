mod Level
mod Alike
mod Operands
mod Conditions
mod Calls
mod Callees
mod Expressions
mod Statements
pub mod Functions
mod Held
mod Fitting
mod Making
mod Counted
mod Bounds
mod Weighing
pub mod Rooms
mod Examples
