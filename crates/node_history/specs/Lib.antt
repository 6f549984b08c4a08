pub mod Faults
pub mod Readable
pub mod Less
pub mod Stands
pub mod Names
pub mod Lacking
pub mod Reading
pub mod Given
