-- Laws of the loops over places.
pub mod Keeping
pub mod Placed
