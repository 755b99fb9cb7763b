pub mod Channels
pub mod Loading
pub mod Choosing
pub mod Laws
