-- What the contracts cite: the places of numbers that are not 0, and a line to which a square is added.
pub mod Places
pub mod SquareAdded
