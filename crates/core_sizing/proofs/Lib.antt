pub mod Others
pub mod Terms
pub mod Elements
pub mod Laid
pub mod Large
