pub mod Putting
pub mod Answers
pub mod Front
