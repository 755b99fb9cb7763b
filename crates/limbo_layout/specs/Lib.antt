pub mod Adts
pub mod Layout
pub mod View
pub mod Laying
pub mod Seen
pub mod Paths
pub mod Laws
