pub mod Listed
pub mod Cuts
pub mod Told
pub mod Sooner
pub mod Anew
