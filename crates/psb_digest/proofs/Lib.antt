pub mod Bytes
pub mod Streams
pub mod Digests
pub mod Chains
