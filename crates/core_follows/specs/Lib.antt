pub mod Drops
pub mod Handled
pub mod Does
pub mod Stands
pub mod Follows
pub mod Modules
