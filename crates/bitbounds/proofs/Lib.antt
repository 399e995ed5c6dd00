-- Laws of bounds on entries.
pub mod Bounds
