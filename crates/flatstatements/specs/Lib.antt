-- Statements: what they are, what stands at the front of tokens, how a statement is read and written.
pub mod Statement
pub mod Front
pub mod Reading
pub mod Printing
