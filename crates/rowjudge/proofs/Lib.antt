-- Laws for the proofs of judge-rows.
pub mod Judging
