pub mod Words
pub mod Spoken
