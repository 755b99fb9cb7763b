pub mod Growing
mod Writing
