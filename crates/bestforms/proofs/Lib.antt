-- The form of the best solutions is what specs/ states of it: at some bits it is least, of a row system, of the model behind it, of the words that are written.
pub mod Least
pub mod Theorem
pub mod Models
pub mod Written
pub mod Refuted
