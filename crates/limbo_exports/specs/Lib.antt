pub mod System
pub mod Exports
pub mod Laws
