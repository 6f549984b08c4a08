pub mod Faults
pub mod Paths
pub mod Entries
pub mod Texts
pub mod Reading
pub mod Answers
pub mod Laws
