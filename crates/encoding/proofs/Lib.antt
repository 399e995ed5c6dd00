-- Laws of the words of bytes.
pub mod Words
