-- Laws for proofs about whole numbers, their tests and lists.
pub mod Linear
pub mod Sums
pub mod Bits
pub mod Product
pub mod Tests
pub mod Booleans
pub mod Lists
pub mod Places
pub mod Fits
pub mod Cut
