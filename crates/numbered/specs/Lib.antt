-- What the contracts cite: the block of a constraint given by a number, and the answer of a judge that refuses by a number.
pub mod Blocks
pub mod Verdicts
