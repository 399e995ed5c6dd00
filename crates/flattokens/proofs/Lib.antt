-- Lemmas.
pub mod Runs
pub mod Statements
pub mod Lexing
