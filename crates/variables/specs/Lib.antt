pub mod Banks
pub mod Sides
