-- What the contracts cite: the table of arguments, reading on from a place, and reading one variable.
pub mod Argument
pub mod Onward
pub mod Variable
