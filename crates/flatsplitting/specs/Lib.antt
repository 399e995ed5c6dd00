pub mod Split
pub mod Pieces
pub mod Added
pub mod Called
pub mod IsSplit
