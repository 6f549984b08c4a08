pub mod Moves
pub mod Snapping
pub mod View
