-- What the contracts cite: the lines of a row.
pub mod Lines
