-- What the contracts cite: the builtin of a code and the words of its arguments.
pub mod Coded
