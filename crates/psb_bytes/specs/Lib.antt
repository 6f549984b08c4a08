pub mod Units
pub mod Objects
pub mod Numbers
pub mod Pages
pub mod Hex
pub mod Tickets
pub mod Names
pub mod Paths
