pub mod Syncs
pub mod Honesty
pub mod AnyStart
pub mod FolderNames
pub mod Filling
pub mod ListTest
pub mod PieceTest
