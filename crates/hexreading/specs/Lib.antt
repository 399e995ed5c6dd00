-- What the contracts cite: reading words in hexadecimal.
pub mod Reading
