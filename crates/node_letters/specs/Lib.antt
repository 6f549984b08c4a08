pub mod Peers
pub mod Messages
pub mod Letters
