-- Laws for proofs about the blocks of elements, maximum and membership.
pub mod OneHot
pub mod Members
pub mod Blocks
