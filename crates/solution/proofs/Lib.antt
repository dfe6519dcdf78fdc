pub mod SolutionLaws
