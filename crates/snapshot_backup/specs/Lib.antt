pub mod Course
pub mod Kept
pub mod Endings
pub mod Runs
pub mod Naming
pub mod Faults
pub mod Files
pub mod Backed
