-- Laws of the solutions of a model and of the lists that are gone through.
pub mod Order
pub mod Complete
pub mod AsMany
pub mod Listed
pub mod Odometer
pub mod Counts
pub mod Stepping
pub mod Through
pub mod Values
pub mod All
pub mod Refuted
