pub mod Places
pub mod Terms
