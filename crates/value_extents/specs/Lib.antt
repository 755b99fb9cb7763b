pub mod Extent
pub mod Parts
pub mod Laws
pub mod Made
