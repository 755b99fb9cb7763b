pub mod Permits
pub mod Laws
pub mod Counting
