pub mod Params
pub mod Given
pub mod Single
pub mod Refused
