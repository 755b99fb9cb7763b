pub mod Writable
