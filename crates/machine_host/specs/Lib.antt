pub mod Replies
pub mod Talk
pub mod Conversation
pub mod Leading
