pub mod Claims
pub mod Pending
pub mod Placing
