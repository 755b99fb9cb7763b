pub mod Numbers
pub mod Start
pub mod Paces
pub mod Standing
pub mod Stands
pub mod Laws
