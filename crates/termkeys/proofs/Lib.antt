pub mod TermKeyLaws
