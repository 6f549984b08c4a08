pub mod Keys
pub mod Peers
pub mod Ranges
pub mod Tables
pub mod Texts
