-- Laws of the block of a number that no builtin has.
mod NoCode
