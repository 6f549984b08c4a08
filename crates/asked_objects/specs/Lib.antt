pub mod Listable
pub mod Parts
pub mod Ranks
pub mod Places
