-- What the contracts cite: positions, names of variables, tokens that write words.
pub mod Position
pub mod Named
