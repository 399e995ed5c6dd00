-- What only internal contracts cite: the row of the bits left out, and the other pieces of the blocks.
pub mod LeftOut
pub mod Pieces
