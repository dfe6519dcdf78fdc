pub mod Recording
pub mod Solving
