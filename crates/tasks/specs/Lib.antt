pub mod Operations
pub mod Ordered
