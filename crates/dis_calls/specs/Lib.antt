pub mod Coming
pub mod Made
