pub mod Growing
pub mod Bare
pub mod Given
pub mod Outs
pub mod Ins
pub mod InUnits
pub mod Units
pub mod Staying
