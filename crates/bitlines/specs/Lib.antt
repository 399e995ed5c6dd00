-- What the contracts cite: sizes, a row over bits as a list of numbers, and a line of the form.
pub mod Sizes
pub mod Dense
pub mod Line
