pub mod Confirms
pub mod Those
