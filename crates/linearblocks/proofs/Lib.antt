-- Laws for proofs about the linear block writers.
pub mod Rows
