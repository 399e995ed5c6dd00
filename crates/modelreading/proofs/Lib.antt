-- Laws for the proofs of the reader and for its callers.
pub mod Loop
pub mod Heads
