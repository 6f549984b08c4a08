pub mod Sealing
pub mod Laws
