pub mod Discarded
pub mod Plans
pub mod Hearing
