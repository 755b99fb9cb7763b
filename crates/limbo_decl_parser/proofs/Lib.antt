pub mod Good
pub mod Deepens
pub mod Places
pub mod Sound
pub mod Complete
pub mod Budget
pub mod Laws
