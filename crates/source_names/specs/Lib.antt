pub mod Included
pub mod Declares
pub mod View
pub mod Laws
