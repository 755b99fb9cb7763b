pub mod Means
pub mod Fails
pub mod Found
pub mod Laws
