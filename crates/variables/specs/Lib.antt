-- What the contracts cite: the words that start a variable, and what judge-model answers of the values.
pub mod Start
pub mod Judged
