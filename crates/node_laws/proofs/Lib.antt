pub mod Frames
pub mod Reacting
pub mod Measured
