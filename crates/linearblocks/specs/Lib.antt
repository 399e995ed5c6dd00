-- What only internal contracts cite: the parts of the blocks of sums of terms, and of lists of Boolean variables.
pub mod Rows
