pub mod Fillings
pub mod Answered
pub mod Trees
pub mod ProcessesFrames
pub mod Processes
