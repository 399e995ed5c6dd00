-- Laws for proofs about sums, and what the walks over lists of bounds share.
pub mod Codes
pub mod Size
pub mod Places
pub mod Filling
pub mod Model
