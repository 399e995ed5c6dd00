-- What the contracts cite: choosing by a test, whole numbers, lists, bounds, sums of terms.
pub mod Choice
pub mod Number
pub mod Lists
pub mod Bounds
pub mod Terms
