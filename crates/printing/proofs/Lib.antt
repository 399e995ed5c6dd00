-- Laws of printed texts: that they are read as the words that they were printed from.
pub mod Spelled
pub mod Numerals
pub mod Builtins
pub mod Steps
pub mod Events
pub mod Aligned
pub mod Turns
pub mod Ahead
pub mod Simulation
pub mod Listed
pub mod Items
pub mod ReadAgain
pub mod Example
