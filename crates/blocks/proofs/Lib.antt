-- Laws for proofs about the block of a constraint, and for those that use the writer of blocks.
pub mod OneBlock
