pub mod Chains
pub mod FreeChain
