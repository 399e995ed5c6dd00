-- Laws for the proofs of the reader.
pub mod Onward
pub mod Steps
pub mod Answered
pub mod Inner
pub mod Heads
pub mod Counts
