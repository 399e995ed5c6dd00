-- For the functions: one block read by itself, answers counted on, the walks, and the parts of the whole answer.
pub mod OneBlock
pub mod Counted
pub mod Fronted
pub mod Walk
pub mod Whole
