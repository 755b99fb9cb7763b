pub mod Cut
pub mod Seen
pub mod Tables
pub mod Names
pub mod Forms
pub mod Made
pub mod Laws
