-- What the contracts cite: the struct of each answer.
pub mod Structs
