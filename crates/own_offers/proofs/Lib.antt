pub mod Chunks
pub mod Lengths
pub mod Letters
