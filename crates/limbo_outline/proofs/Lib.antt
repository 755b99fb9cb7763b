pub mod Forms
pub mod Telling
pub mod Places
pub mod Numbers
pub mod Scoping
