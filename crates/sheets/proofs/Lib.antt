-- Laws of a sheet: that it can be read back, that every line has 80 columns, and its answers.
pub mod Fitting
pub mod ReadBack
pub mod EightyColumns
pub mod Answers
pub mod Refuted
pub mod Front
