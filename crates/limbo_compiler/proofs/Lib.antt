pub mod Fine
pub mod Means
pub mod Valid
