pub mod Fill
pub mod TermKeysMean
