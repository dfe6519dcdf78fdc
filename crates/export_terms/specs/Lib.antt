pub mod Arguments
pub mod Exactly
