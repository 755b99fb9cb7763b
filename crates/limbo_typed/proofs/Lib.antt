pub mod View
pub mod Examples
