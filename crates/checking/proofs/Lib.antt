-- Laws for proofs about check, and about what its answer says; answers at the limits, computed.
pub mod Costs
pub mod Uses
pub mod Kept
pub mod CheckWalk
pub mod Answers
pub mod AtTheLimits
