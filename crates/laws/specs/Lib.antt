pub mod Choice
pub mod Digits
pub mod Members
pub mod Sizes
