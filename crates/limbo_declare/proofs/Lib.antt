pub mod Failing
pub mod Together
pub mod Scope
