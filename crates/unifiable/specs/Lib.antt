pub mod CheckedTerms
pub mod Pool
