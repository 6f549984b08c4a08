pub mod Fingerprints
pub mod Cuts
pub mod Pushes
pub mod Steps
pub mod Spans
pub mod Laws
