pub mod Answers
pub mod Pieces
pub mod Found
pub mod Front
