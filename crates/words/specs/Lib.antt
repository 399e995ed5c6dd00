-- What the contracts cite: words, the named numbers of documents 01 and 02, text as bytes, laying words over a list, faults and answers, tests of a word and steps over it, both judges.
pub mod Kind
pub mod Kinds
pub mod Limit
pub mod Fault
pub mod Word
pub mod Small
pub mod Variables
pub mod Bytes
pub mod Overlay
pub mod LaidAt
pub mod Refusals
pub mod Refusal
pub mod Answer
pub mod Faults
pub mod Check
pub mod Judge
