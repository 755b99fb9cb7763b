pub mod Added
mod Closed
mod Fielded
pub mod Kept
mod Named
mod Permitted
pub mod Shown
mod Small
pub mod Standing
pub mod Untouched
