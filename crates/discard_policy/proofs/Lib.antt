pub mod Picks
pub mod Draws
mod Chosen
