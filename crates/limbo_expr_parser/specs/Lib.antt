pub mod Exprs
