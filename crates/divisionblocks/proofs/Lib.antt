-- Laws for proofs about the blocks of int_div and int_mod.
pub mod Largest
pub mod Blocks
