pub mod CaseText
