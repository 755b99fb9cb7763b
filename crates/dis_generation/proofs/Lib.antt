pub mod Emission
pub mod Others
pub mod Amounts
pub mod Ready
pub mod Steps
pub mod Assembly
