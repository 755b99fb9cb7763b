mod Places
mod Way
mod Opening
mod Source
mod Listed
mod Worlds
mod Frames
pub mod Entry
mod Examples
