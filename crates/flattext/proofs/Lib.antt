-- Laws of names and labels.
pub mod Keys
pub mod Labels
