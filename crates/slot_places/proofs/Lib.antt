pub mod Places
pub mod Grown
