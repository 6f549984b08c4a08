pub mod Moved
pub mod Links
pub mod Following
pub mod Finding
pub mod Numbers
pub mod Held
pub mod Worked
