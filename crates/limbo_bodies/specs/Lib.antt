pub mod Bodies
pub mod Definitions
pub mod Numbers
pub mod View
