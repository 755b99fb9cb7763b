pub mod Includes
pub mod Shelf
pub mod Links
pub mod Refusals
pub mod Laying
pub mod Laws
pub mod View
