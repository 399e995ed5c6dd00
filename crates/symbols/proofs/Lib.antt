pub mod Walk
pub mod Grown
pub mod Entries
pub mod Reached
