pub mod Overs
