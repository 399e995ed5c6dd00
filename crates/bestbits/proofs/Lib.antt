-- Lemmas of its functions.
mod Answers
mod Distance
mod Numbered
pub mod Front
