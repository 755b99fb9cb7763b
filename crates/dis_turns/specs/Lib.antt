pub mod Given
pub mod Replies
pub mod Turns
