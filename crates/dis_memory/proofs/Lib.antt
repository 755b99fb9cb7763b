mod Examples
pub mod Growing
pub mod Reaching
pub mod Sound
pub mod Fair
pub mod Keeping
