pub mod ReadWords
pub mod Walks
pub mod CallWords
pub mod Fitting
