pub mod Layouts
pub mod Walks
pub mod Seen
pub mod Maps
pub mod Spelled
pub mod Growing
pub mod Others
pub mod Filled
