-- What the proofs of fill need: what it writes is in the range; its answers; what check's answer says of them.
pub mod Ranges
pub mod Answers
pub mod Promise
pub mod WrongOutputs
pub mod Refuted
