pub mod BooleanItems
pub mod PlacedCalls
pub mod GrownCalls
pub mod ReadStatements
pub mod Carrying
pub mod Words
pub mod Flattening
pub mod Rows
pub mod Theorem
mod Example
