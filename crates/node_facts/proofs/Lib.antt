pub mod Compared
pub mod Judged
pub mod Again
pub mod Probed
pub mod OwnChain
