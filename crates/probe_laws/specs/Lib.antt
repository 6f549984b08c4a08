pub mod Just
pub mod There
pub mod Compared
pub mod Answers
pub mod Courses
