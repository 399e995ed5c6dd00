-- Laws for proofs about the variables of words.
pub mod Counted
pub mod Walk
pub mod Small
pub mod After
