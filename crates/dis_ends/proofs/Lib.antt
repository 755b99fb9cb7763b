pub mod Quanta
pub mod Far
