-- What a constraint encodes and the record after its block; the uses of each variable.
pub mod Record
pub mod Uses
