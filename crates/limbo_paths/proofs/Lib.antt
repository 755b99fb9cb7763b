pub mod Tests
pub mod Sound
pub mod Whole
pub mod Arms
pub mod Forms
pub mod Ways
pub mod Examples
