pub mod Forms
pub mod Told
pub mod Channels
pub mod Sound
