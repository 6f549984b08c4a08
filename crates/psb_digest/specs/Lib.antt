pub mod Hashes
pub mod Words
pub mod Claims
pub mod Clashes
