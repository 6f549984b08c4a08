pub mod Walking
pub mod Bits
