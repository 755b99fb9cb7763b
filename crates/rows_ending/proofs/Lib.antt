pub mod Returning
pub mod Endings
pub mod Placing
pub mod Waiting
pub mod Numbers
pub mod Two
pub mod Nils
