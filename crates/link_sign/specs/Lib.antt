pub mod TypeText
pub mod Computed
pub mod Signature
pub mod Clashes
pub mod Drafts
pub mod Opened
pub mod Laws
