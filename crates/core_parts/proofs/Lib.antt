pub mod Coded
pub mod Dropped
pub mod Aimed
pub mod Noded
pub mod Items
pub mod Celled
pub mod Joined
pub mod Coming
