pub mod Fields
pub mod Frames
pub mod Views
pub mod Laws
