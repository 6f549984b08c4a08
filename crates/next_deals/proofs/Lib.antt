pub mod Reaching
pub mod Searched
