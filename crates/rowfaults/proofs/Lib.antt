-- Laws for the proofs about faults.
pub mod Heads
