-- Laws for proofs about what fill writes.
pub mod Puts
pub mod Writing
pub mod Only
pub mod Labels
pub mod Codes
pub mod Division
pub mod Members
pub mod Picks
pub mod Powers
