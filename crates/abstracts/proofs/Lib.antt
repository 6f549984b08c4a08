pub mod Puts
pub mod Ordering
