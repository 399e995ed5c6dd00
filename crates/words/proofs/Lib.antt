-- Laws for proofs about words, laying, reading and judging.
pub mod ReadBack
pub mod Range
pub mod Choices
pub mod Sources
pub mod Machine
pub mod Overlay
pub mod Rest
pub mod Copied
pub mod LaidThen
pub mod Reading
pub mod Judge
pub mod Answers
pub mod Written
pub mod Faulty
pub mod Steps
