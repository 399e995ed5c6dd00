-- What the contracts cite: check over bytes.
pub mod Bytes
