-- What the contracts cite: what each part of the call owes, and the parts of a variable's distance.
pub mod Answered
