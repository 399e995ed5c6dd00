-- What only internal contracts cite: the parts of a table's rows.
pub mod Rows
