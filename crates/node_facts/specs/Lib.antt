pub mod Compared
pub mod Refused
pub mod Again
pub mod Probed
pub mod OwnChain
