-- What the contracts cite: a number taken some times and added to, and the line of a bit so taken.
pub mod Taking
