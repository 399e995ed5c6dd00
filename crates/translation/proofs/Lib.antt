-- Laws for proofs about translate.
pub mod Tail
pub mod WriteWalk
pub mod Over
pub mod Refusals
pub mod Front
pub mod Refuted
