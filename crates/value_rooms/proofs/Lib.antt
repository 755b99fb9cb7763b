pub mod Cutting
pub mod Listed
pub mod Rounds
pub mod Fitting
pub mod PartsThere
pub mod Naming
pub mod Inside
