pub mod InFront
pub mod Lossy
pub mod Options
pub mod Steps
pub mod Utf8
