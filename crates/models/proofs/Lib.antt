-- Laws for proofs about models.
pub mod Arguments
pub mod Sound
pub mod Numbers
pub mod Fits
pub mod Form
pub mod Codes
pub mod AllCodes
pub mod Typed
pub mod Contents
pub mod Accepted
pub mod Constraints
pub mod Parity
pub mod Power
