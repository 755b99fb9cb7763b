pub mod Steps
pub mod TypeLaws
pub mod TypeSteps
pub mod Unaries
