-- Laws for proofs about bounds and members.
pub mod Size
pub mod Rising
pub mod Kept
