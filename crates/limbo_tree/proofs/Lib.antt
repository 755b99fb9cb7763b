pub mod Exprs
pub mod Members
pub mod Stmts
pub mod Others
pub mod Forms
pub mod Standing
pub mod Found
