pub mod Printed
pub mod Turns
pub mod Example
pub mod LongestLine
pub mod LogApplies
pub mod EachField
pub mod Prints
