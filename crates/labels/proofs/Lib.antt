-- Laws of positions, names and places of words.
pub mod OneByte
pub mod NamesOf
