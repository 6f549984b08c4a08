pub mod Worlds
pub mod Agreeing
pub mod Laws
pub mod Pairs
pub mod Worked
