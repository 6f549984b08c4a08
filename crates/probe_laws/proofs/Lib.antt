pub mod Just
pub mod There
pub mod Carried
pub mod Sound
pub mod Compared
pub mod Answers
pub mod Silence
pub mod Courses
