pub mod Others
pub mod Table
pub mod Told
pub mod Giving
