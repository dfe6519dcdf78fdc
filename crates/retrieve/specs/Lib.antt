pub mod RetrievalMeans
pub mod Retrieving
