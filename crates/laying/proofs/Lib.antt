-- Laws for proofs about laying blocks.
pub mod Parts
pub mod Alike
pub mod Counts
pub mod Blocks
pub mod Lists
pub mod Written
