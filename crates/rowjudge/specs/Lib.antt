-- What the contracts cite: judging from a place on.
pub mod Judging
