pub mod Scopes
pub mod Ranges
pub mod Fitting
pub mod Counts
pub mod Steps
