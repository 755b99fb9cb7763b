pub mod Forms
pub mod ArgTypes
