-- Laws that the documents name and that no proof of the calls needs any more: a file for each crate that they are of.
pub mod BitWriting
pub mod Encoding
pub mod Extremes
pub mod ModelReading
pub mod Pairs
pub mod Symbols
pub mod Texts
