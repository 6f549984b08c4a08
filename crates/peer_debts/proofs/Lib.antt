pub mod Counts
pub mod Owed
