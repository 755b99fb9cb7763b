pub mod Codes
pub mod Ending
pub mod Forms
pub mod Hearing
pub mod Stepping
