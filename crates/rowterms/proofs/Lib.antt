-- Laws for the proofs about terms and factors.
pub mod Sums
pub mod Steps
