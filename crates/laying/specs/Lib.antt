-- What only internal contracts cite: the parts of a block, lists of them, what laying them does, what closures answer, and sizes.
pub mod Part
pub mod Lists
pub mod Gives
pub mod Appends
pub mod Room
pub mod Writes
pub mod Sizes
