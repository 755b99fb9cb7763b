pub mod Context
pub mod View
