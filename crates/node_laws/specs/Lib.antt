pub mod Letters
pub mod Causes
