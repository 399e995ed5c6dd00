-- The form of the best solutions, its words, the answer, and what it says of the row system and of the model behind it; the direction as a number.
pub mod BestForm
pub mod BestAnswer
pub mod BestSolutions
pub mod BestShares
pub mod Numbered
