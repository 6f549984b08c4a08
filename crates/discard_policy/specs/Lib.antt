pub mod Grades
pub mod Drawing
pub mod Choices
