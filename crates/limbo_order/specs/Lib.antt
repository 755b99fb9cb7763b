pub mod Order
pub mod View
pub mod Searching
pub mod Seen
pub mod Laws
