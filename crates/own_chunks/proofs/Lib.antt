pub mod Listed
pub mod OwnTrees
pub mod Walks
