-- Demand 3, stated; that each solution has one list of auxiliaries; and what shared variables cost in auxiliaries.
pub mod SharedSolutions
pub mod ExactlyOne
pub mod Auxiliaries
