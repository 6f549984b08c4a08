pub mod Runs
pub mod TreeRuns
pub mod Slots
pub mod Cuts
pub mod Longest
pub mod Nexts
pub mod Parts
