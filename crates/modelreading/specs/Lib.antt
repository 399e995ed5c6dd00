-- What the contracts cite: what reading keeps.
pub mod Seen
