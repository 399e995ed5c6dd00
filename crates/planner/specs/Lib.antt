-- What the contracts cite: that the values that were written satisfy the row system that was written.
pub mod SolvesRows
