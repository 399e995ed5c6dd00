-- What the contracts cite: a word as text.
pub mod Digits
