-- Laws of the walk over rows that counts bits and tests numbers.
pub mod Walk
pub mod Limits
pub mod Rows
