pub mod Types
pub mod Others
pub mod Printing
pub mod Sizes
pub mod Operands
pub mod Loops
pub mod Tests
pub mod Coded
mod Examples
