mod Examples
pub mod Cut
pub mod Many
pub mod Named
pub mod Replies
pub mod Loaded
pub mod Exact
pub mod Words
pub mod Stores
pub mod Storing
pub mod Held
pub mod Forging
pub mod Leading
pub mod Unreached
pub mod Ending
pub mod Beginning
pub mod Going
