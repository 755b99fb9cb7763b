pub mod Telling
pub mod Renewing
