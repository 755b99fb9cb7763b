pub mod Console
pub mod Exchange
