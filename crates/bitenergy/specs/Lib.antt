-- What the contracts cite: sums over bits at the values that bits read as, and what pairs of bits add.
pub mod Reads
pub mod Pairs
