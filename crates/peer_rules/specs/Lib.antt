pub mod Probing
pub mod Replacing
