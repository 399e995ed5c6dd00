pub mod Crossed
pub mod Factors
pub mod Whole
pub mod Pairs
pub mod PairValues
pub mod Row
pub mod Walk
pub mod Answers
