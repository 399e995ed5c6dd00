-- What only internal contracts cite: the row of x − y + d ≤ 0 where a bit is 1, or where it is 0.
pub mod Rows
