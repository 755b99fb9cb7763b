mod Examples
mod Contexts
mod Places
pub mod Follows
mod Operands
mod Parts
mod Values
mod Conditions
mod Connected
mod Arguments
mod Calls
mod Expressions
mod Begins
mod Bodies
mod Loops
mod Begun
mod Simulation
mod Modules
mod Pauses
mod Quiet
pub mod Keeps
