-- What the contracts cite: the lines that the programs print.
pub mod Lines
