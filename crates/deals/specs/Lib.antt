pub mod Views
pub mod Naming
pub mod Sought
pub mod Placing
