-- What the contracts cite: the terms and the items of a row system for reading.
pub mod Terms
pub mod Items
