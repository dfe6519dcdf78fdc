pub mod Arms
pub mod Classes
pub mod Goal
pub mod Masks
pub mod Prefix
pub mod Push
pub mod Run
pub mod Sums
