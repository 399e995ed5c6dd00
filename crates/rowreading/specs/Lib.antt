-- What the contracts cite: the items of a row system, and reading on from a place.
pub mod Item
pub mod Onward
