pub mod Opening
pub mod Entry
