pub mod Opening
pub mod Small
pub mod Strings
pub mod Beginning
pub mod Together
