pub mod Forms
pub mod Decided
