pub mod Table
pub mod Shapes
pub mod Complete
pub mod Sound
pub mod Deep
pub mod Places
pub mod Laws
pub mod ExprSteps
