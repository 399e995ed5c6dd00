-- Tokens: bytes by their use, what a token says, the tokens of a statement, and the bytes that have them.
pub mod Token
pub mod Byte
pub mod Reading
pub mod Lexes
