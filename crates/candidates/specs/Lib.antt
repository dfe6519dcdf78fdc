pub mod Ends
pub mod Forests
pub mod Has
pub mod CandidatesMean
pub mod Narrow
pub mod None
pub mod Tables
pub mod Walk
