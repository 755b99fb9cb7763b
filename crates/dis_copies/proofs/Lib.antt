pub mod Holding
pub mod Overs
pub mod Turns
pub mod Changes
pub mod Settling
pub mod Datas
