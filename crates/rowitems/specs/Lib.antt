-- What the contracts cite: reading past an item.
pub mod Passing
