-- Laws for proofs about row systems.
pub mod Starts
pub mod ReadBack
pub mod Numbers
pub mod Walk
pub mod Sizes
pub mod Ordered
pub mod FewVariables
