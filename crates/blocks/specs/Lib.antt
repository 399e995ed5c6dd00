-- What only internal contracts cite: the constraint of a code and the words after its head, and its block.
pub mod Coded
