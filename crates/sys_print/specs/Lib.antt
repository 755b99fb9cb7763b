pub mod Worlds
pub mod Printing
pub mod Sent
pub mod Marks
