pub mod Forms
pub mod Facts
pub mod Stands
pub mod Contents
pub mod Laws
