-- Laws for the proofs about items.
pub mod Passing
