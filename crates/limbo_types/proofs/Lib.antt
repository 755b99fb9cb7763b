pub mod View
pub mod Same
pub mod Forms
