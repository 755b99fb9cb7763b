pub mod Indexes
pub mod Apart
pub mod Inside
pub mod Found
