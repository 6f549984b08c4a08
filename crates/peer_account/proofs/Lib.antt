pub mod Accounts
pub mod Probed
pub mod Discarded
