-- Laws for proofs about the block of int_pow.
pub mod CutBounds
pub mod Steps
pub mod Block
