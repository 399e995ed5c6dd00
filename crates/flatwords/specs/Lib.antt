pub mod SystemWords
pub mod CallWords
pub mod Fits
pub mod CallFits
