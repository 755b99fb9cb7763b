pub mod Things
pub mod ThingView
pub mod Choosing
pub mod Laws
