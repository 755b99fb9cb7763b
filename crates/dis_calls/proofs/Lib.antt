pub mod Made
pub mod Calling
pub mod Gone
pub mod Found
pub mod Quiet
pub mod Framed
