pub mod Unchanged
