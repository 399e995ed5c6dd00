-- What the contracts cite: what the commands take, and which options go together.
pub mod Taken
pub mod Together
