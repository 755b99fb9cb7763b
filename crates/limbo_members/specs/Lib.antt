pub mod Written
pub mod Tables
pub mod Adding
pub mod Standing
