-- What the contracts cite: that entries are no farther from 0 than a number.
pub mod Within
