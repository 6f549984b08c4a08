pub mod Places
pub mod Loosened
pub mod Settled
pub mod Taken
