-- What the contracts cite: the fault of a head word.
pub mod Head
