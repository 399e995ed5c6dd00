-- What the contracts cite: the words of bytes.
pub mod Bytes
