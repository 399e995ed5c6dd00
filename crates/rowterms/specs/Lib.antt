-- What the contracts cite: where reading goes on, the values of variables, and what they make of a row.
pub mod Values
