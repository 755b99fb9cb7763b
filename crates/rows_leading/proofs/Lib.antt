pub mod Deciding
pub mod Bare
pub mod Giving
pub mod Storing
pub mod Rows
pub mod Leading
