-- Laws for the proofs of the items' functions and of the reader.
pub mod Table
pub mod Places
pub mod Onward
pub mod Steps
pub mod Inner
pub mod Variable
