pub mod Values
pub mod Needs
pub mod Answers
pub mod Asking
pub mod Valuing
pub mod Initials
pub mod Laws
