pub mod Chains
pub mod Deadlines
