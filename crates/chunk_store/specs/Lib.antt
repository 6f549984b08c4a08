pub mod Owners
pub mod Records
pub mod Latest
pub mod Table
pub mod Store
pub mod Looks
