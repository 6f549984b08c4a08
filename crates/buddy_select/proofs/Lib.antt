pub mod Shares
pub mod Ordering
pub mod Distinct
