pub mod Calls
pub mod Changes
pub mod Kept
pub mod Links
pub mod TablesHold
pub mod Question
pub mod Tables
