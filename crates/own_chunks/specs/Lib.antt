pub mod OwnList
pub mod OwnTree
pub mod Snapshots
