-- The form over bits: never below 0, and 0 exactly where the row system is satisfied.
pub mod Lists
pub mod AtTheEdges
pub mod Sums
pub mod Bits
pub mod Weights
pub mod Numbers
pub mod Products
pub mod Sound
pub mod Complete
pub mod Matrix
pub mod Theorem
pub mod InBounds
pub mod ReadBack
pub mod Written
