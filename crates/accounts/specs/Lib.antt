pub mod Table
pub mod Freeing
