pub mod Base
pub mod Asked
pub mod Words
