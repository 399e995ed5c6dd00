-- Constants as variables of one value: the table of constants, builtins over other numbers, the whole.
pub mod Renamed
pub mod Constants
pub mod Numbered
pub mod Numbers
pub mod Indexed
pub mod Whole
pub mod Typed
pub mod Short
