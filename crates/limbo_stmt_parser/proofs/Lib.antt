pub mod Postfixes
pub mod Keep
pub mod Going
pub mod Budget
