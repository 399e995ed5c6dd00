pub mod Band
pub mod Lining
pub mod Putting
pub mod Squaring
pub mod Pairs
