-- Laws for proofs about arguments.
pub mod Size
pub mod Places
