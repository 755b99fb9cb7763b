pub mod Starting
pub mod Loading
pub mod Numbers
pub mod Opening
