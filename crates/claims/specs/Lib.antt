pub mod Source
pub mod Chain
pub mod Fingerprints
pub mod Growth
pub mod Walks
