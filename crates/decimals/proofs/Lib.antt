-- Laws of numbers as text and of text in columns.
pub mod Columns
pub mod Digits
pub mod Printed
pub mod Ahead
pub mod ReadBack
