pub mod Face
pub mod Solved
