pub mod Moves
pub mod Slots
pub mod Enters
