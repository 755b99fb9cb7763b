mod LastName
pub mod Words
