pub mod Pair
pub mod Replies
pub mod One
