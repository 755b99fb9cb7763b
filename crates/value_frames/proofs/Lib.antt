pub mod Beginning
pub mod Later
pub mod Slots
pub mod Rest
pub mod Replacing
pub mod Examples
