pub mod NextLaws
pub mod Listing
