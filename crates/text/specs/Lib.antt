-- What the contract cites: what the program prints.
pub mod Text
